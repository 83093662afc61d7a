-- Laws.
pub mod Bits
pub mod Telling
pub mod Touching
