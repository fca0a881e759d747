pub mod Ends
pub mod Lines
pub mod Talks
pub mod Letters
