-- What only proofs and inner contracts use.
pub mod Taking
pub mod OverPlan
