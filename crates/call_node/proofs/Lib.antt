-- Laws.
pub mod Bounds
