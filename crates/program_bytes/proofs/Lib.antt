-- Laws.
pub mod Keeping
