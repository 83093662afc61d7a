-- What only proofs and inner contracts use.
pub mod Zero
pub mod OverPlan
