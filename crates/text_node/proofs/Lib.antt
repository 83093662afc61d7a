-- Laws.
pub mod Nodes
