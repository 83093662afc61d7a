-- Laws.
pub mod Gathering
