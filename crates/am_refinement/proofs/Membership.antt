pub mod Joins
pub mod Lasts
pub mod Welcoming
pub mod LeftOut
pub mod Leaving
pub mod Going
