-- Laws.
pub mod Fitting
pub mod Known
pub mod Judging
