-- Laws.
pub mod Answering
pub mod Passing
pub mod Choosing
pub mod Writing
pub mod Searching
pub mod Candidates
pub mod Owning
