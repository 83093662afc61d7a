-- Laws.
pub mod Hitting
pub mod Telling
