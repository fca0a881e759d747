pub mod Runs
pub mod Asked
pub mod Moves
pub mod Watched
pub mod Settling
