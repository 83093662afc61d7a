-- What only proofs and inner contracts use.
pub mod Both
pub mod Steps
pub mod OverPlan
