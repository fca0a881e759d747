pub mod Rows
pub mod Rings
mod Kept
