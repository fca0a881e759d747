pub mod Keeping
pub mod Keeps
pub mod Refreshing
pub mod Stepped
pub mod Silent
pub mod Begun
