pub mod Fetching
pub mod Voting
pub mod Best
pub mod Following
pub mod Exchanged
pub mod Ending
