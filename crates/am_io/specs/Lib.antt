pub mod Buffers
pub mod Faults
pub mod Outside
pub mod Writers
