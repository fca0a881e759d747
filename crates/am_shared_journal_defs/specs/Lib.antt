pub mod Keys
pub mod Stops
pub mod Sights
pub mod Passes
pub mod Choices
