-- Laws.
pub mod Flipping
pub mod Lines
pub mod Literals
pub mod Words
