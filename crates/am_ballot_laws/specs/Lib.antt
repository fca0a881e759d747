pub mod Voting
pub mod Fetching
pub mod Following
