pub mod Looks
pub mod Seats
pub mod Wires
