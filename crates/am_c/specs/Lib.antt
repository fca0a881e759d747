pub mod Sessions
pub mod Numbers
pub mod Handles
