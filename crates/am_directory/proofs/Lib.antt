pub mod Entries
pub mod Feeding
pub mod Loops
