-- Laws.
pub mod Undoing
