-- Laws.
pub mod Penalties
