-- What only proofs and inner contracts use.
pub mod Filling
pub mod OverPlan
