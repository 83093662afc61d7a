-- Laws.
pub mod Forming
pub mod Texts
pub mod Trees
