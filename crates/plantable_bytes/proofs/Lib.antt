-- Laws.
pub mod Giving
pub mod Keeping
pub mod Passing
pub mod Room
