-- Laws.
pub mod Joins
pub mod Links
pub mod Records
pub mod Sets
pub mod Table
