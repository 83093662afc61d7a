-- Laws.
pub mod Telling
