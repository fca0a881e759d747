pub mod Holding
pub mod Summaries
