mod Words
pub mod AssembledPieces
pub mod Runs
pub mod Sends
pub mod Tails
pub mod Holding
pub mod Pieces
pub mod Sent
pub mod Starts
pub mod Waiting
