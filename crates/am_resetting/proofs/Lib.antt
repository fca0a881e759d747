pub mod Plans
pub mod DecidingWords
pub mod Orders
pub mod Sets
pub mod Views
pub mod Nodes
pub mod Looked
pub mod Verdicts
pub mod Promises
pub mod VotingWords
mod Ballots
mod VoteRows
pub mod CatchingWords
mod Pieces
mod Serves
