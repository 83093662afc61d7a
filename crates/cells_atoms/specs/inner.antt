-- What only proofs and inner contracts use.
pub mod Alike
pub mod Atoms
pub mod Ports
