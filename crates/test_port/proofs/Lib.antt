-- Laws.
pub mod Numbers
