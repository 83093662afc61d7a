-- Laws.
pub mod Answering
