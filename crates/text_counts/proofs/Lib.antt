-- Laws.
pub mod Counting
