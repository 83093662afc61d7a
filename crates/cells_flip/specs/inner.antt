-- What only proofs and inner contracts use.
pub mod Flips
pub mod Steps
pub mod OverPlan
