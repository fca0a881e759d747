pub mod Steps
pub mod Limits
pub mod Answered
pub mod RaceLimits
pub mod Digits
mod Documents
mod Written
mod ReadBack
pub mod Again
