pub mod LeaderRows
pub mod Trims
pub mod Taken
pub mod TakenRuns
pub mod ViewMembers
