pub mod inner
