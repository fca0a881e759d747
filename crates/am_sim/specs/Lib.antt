pub mod Playing
pub mod Racing
pub mod Simulation
pub mod Speaking
