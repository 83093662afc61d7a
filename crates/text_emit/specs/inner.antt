-- What only proofs and inner contracts use.
pub mod Emits
pub mod Fields
