pub mod Leaving
pub mod Gathered
pub mod Later
pub mod Unasked
pub mod Answered
pub mod Joined
