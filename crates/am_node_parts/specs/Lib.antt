pub mod Keeps
pub mod Parts
pub mod Prelude
pub mod Verdicts
pub mod Replies
