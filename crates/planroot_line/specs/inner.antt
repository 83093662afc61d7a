-- What only proofs and inner contracts use.
pub mod Contract
pub mod Pieces
