-- Laws.
pub mod Writing
