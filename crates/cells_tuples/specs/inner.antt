-- What only proofs and inner contracts use.
pub mod Tuples
pub mod OverPlan
