pub mod Lending
pub mod Scratch
pub mod inner
