pub mod Json
pub mod Documents
pub mod Tokens
pub mod Ranges
pub mod Seeing
