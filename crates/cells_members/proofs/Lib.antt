-- Laws.
pub mod Halves
pub mod Few
pub mod Penalties
