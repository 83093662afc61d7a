pub mod Working
pub mod inner
