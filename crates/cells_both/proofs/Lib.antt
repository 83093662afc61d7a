-- Laws.
pub mod Decided
pub mod Missed
pub mod Same
pub mod Tuples
pub mod Words
