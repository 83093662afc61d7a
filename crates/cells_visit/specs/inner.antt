-- What only proofs and inner contracts use.
pub mod Walking
pub mod Writing
pub mod OverPlan
