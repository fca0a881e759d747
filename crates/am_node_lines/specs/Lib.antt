pub mod Lines
pub mod Answers
pub mod Laws
pub mod Speakers
pub mod Speaking
