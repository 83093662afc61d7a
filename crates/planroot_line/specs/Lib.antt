pub mod Line
pub mod Loading
pub mod inner
