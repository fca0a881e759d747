pub mod Nodes
pub mod Forms
