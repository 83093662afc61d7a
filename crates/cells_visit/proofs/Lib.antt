-- Laws.
pub mod Rooted
pub mod Rowing
pub mod Walking
pub mod Writes
