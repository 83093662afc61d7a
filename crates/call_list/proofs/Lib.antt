-- Laws.
pub mod Extending
pub mod Scratch
