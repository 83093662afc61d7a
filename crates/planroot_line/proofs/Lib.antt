-- Laws.
pub mod Answers
pub mod Finishing
pub mod Pieces
pub mod Stopping
pub mod Tables
