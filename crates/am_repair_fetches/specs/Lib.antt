pub mod Later
pub mod Rest
pub mod Joined
