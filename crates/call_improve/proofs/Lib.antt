-- Laws.
pub mod Improving
