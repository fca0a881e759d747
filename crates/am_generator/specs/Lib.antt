pub mod Generating
pub mod Counts
pub mod Places
pub mod Courses
