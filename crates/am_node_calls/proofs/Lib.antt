pub mod Words
pub mod Changes
pub mod Rows
pub mod Lives
pub mod Emits
pub mod Leaves
pub mod Ticks
