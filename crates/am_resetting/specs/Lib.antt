pub mod Deciding
pub mod Catching
