-- Laws.
pub mod Putting
