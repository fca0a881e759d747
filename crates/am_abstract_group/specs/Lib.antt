pub mod Group
pub mod Moves
pub mod Runs
pub mod Kept
pub mod MovesClaims
pub mod Claims
pub mod OrdersClaims
