pub mod Fetching
pub mod Exchanges
