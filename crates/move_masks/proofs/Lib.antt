-- Laws.
pub mod Copying
pub mod Masks
