pub mod Words
pub mod Votes
