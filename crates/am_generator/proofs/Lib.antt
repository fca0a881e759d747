pub mod Words
mod Bodies
pub mod Drives
pub mod Rules
pub mod Seen
pub mod Sends
pub mod Courses
