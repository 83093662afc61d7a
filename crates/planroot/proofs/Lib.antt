-- Laws.
pub mod Passing
