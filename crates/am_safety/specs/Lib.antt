pub mod Lists
pub mod Records
pub mod Resiliences
pub mod Parts
pub mod Processes
