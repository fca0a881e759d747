pub mod Asks
pub mod Lined
pub mod Outs
pub mod Settled
pub mod SettledRuns
pub mod Given
pub mod AnsweredRuns
