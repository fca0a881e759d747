pub mod VotesTold
pub mod Bases
pub mod Least
pub mod Listed
pub mod Kept
pub mod Taken
pub mod Staying
