mod Done
mod Names
pub mod Given
pub mod Played
pub mod Statuses
pub mod Texts
