pub mod Words
pub mod AcceptFronts
pub mod Refreshes
pub mod BestVotes
pub mod Rows
pub mod Held
pub mod Bytes
