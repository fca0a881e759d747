pub mod Votes
pub mod Trims
pub mod Staying
