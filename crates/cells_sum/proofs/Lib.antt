-- Laws.
pub mod Sums
