-- Laws.
pub mod Tags
pub mod Telling
