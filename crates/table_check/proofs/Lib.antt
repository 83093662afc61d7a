-- Laws of the check.
pub mod Blank
pub mod Judging
pub mod Siblings
pub mod Whole
