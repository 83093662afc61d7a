-- What only proofs and inner contracts use.
pub mod Scans
pub mod Words
