-- Laws.
pub mod Adding
pub mod Steps
pub mod Words
