-- What only proofs and inner contracts use.
pub mod Agreement
pub mod Flip
pub mod Literals
pub mod MoveFields
