-- Laws.
pub mod Handing
