-- What only proofs and inner contracts use.
pub mod Crossed
pub mod OverPlan
