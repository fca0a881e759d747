pub mod Bodies
pub mod RacedBodies
pub mod Scripts
pub mod Texts
pub mod Claims
