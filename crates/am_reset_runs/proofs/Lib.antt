mod Words
pub mod Parts
mod Sound
mod Counts
pub mod Voting
pub mod Votes
pub mod Heard
pub mod Fetched
mod Come
mod Deciding
mod Quieter
pub mod Resetting
pub mod Again
