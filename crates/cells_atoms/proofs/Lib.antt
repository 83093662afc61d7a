-- Laws.
pub mod Alike
pub mod Atoms
pub mod Examples
pub mod Over
pub mod Plans
pub mod Ports
pub mod Tuples
