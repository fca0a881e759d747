pub mod Taking
pub mod Resting
pub mod Quiet
pub mod Numbering
pub mod Rest
