-- What only proofs and inner contracts use.
pub mod Trying
pub mod OverPlan
