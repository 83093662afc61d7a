-- Laws.
pub mod Prefix
pub mod Held
pub mod Limits
