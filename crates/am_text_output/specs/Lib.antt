pub mod Holding
pub mod Memory
pub mod Summaries
