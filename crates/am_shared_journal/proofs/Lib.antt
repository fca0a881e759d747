mod Words
pub mod Looks
pub mod Views
pub mod Dealt
pub mod Keeps
pub mod Sharing
pub mod Passing
pub mod Committing
pub mod Gathering
