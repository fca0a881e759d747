pub mod Journals
pub mod Addressed
pub mod Deliveries
pub mod Groups
