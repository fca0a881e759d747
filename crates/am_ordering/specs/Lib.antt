pub mod Receiving
pub mod Sequencing
pub mod Joining
