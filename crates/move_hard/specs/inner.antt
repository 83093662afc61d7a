-- What only proofs and inner contracts use.
pub mod Hard
pub mod OverPlan
