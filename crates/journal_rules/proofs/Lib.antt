-- Laws.
pub mod Counting
pub mod Opposites
pub mod Promised
pub mod Writing
