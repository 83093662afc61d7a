-- Laws.
pub mod Rows
mod Steps
pub mod Zeros
