pub mod Tree
pub mod inner
