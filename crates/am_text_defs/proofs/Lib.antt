pub mod Cuts
pub mod Digits
pub mod Names
pub mod Bytes
