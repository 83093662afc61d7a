-- What only proofs and inner contracts use.
pub mod Links
pub mod Stored
