pub mod SentClaim
pub mod Lists
pub mod PromisedClaim
pub mod Ballots
