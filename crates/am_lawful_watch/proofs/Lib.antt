pub mod WatchWords
pub mod Accepts
pub mod Tellings
