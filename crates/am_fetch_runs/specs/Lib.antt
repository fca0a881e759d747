pub mod Behind
pub mod Events
pub mod Gathering
pub mod Ballots
