-- Laws.
pub mod Copying
pub mod Digits
pub mod Rounds
pub mod Runs
