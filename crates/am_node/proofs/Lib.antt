pub mod Founders
pub mod Heard
pub mod Told
pub mod Within
