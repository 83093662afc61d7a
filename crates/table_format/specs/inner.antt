-- What only proofs and inner contracts use.
pub mod Written
pub mod Fields
pub mod Tests
pub mod Index
pub mod Facts
