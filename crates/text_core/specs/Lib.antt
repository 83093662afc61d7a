pub mod Core
pub mod Grounds
pub mod Meaning
pub mod Names
pub mod inner
