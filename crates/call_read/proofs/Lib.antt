-- Laws.
pub mod Answers
pub mod Finishing
pub mod Reading
