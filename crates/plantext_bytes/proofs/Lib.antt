-- Laws.
pub mod Giving
pub mod Keeping
