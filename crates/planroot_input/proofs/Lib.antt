-- Laws.
pub mod Closing
pub mod Gathering
pub mod Passing
pub mod Phases
pub mod Runs
pub mod Settling
pub mod Splitting
pub mod Stepping
