-- Laws.
pub mod Filling
pub mod Loading
pub mod Trees
pub mod Values
