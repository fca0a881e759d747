pub mod Counting
pub mod Entries
pub mod Faulting
pub mod Keys
pub mod Passing
pub mod Refusing
