pub mod Jobs
pub mod Looks
