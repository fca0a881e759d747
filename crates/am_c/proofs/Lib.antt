pub mod Boxes
pub mod Walks
pub mod Sessions
pub mod Calls
