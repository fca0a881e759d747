mod Answered
mod Raced
mod Spoken
mod Texts
pub mod Reread
