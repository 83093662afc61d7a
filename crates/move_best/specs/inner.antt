-- What only proofs and inner contracts use.
pub mod Choosing
pub mod OverPlan
