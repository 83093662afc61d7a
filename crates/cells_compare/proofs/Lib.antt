-- Laws.
pub mod Nested
