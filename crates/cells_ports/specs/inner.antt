-- What only proofs and inner contracts use.
pub mod Ports
pub mod Rows
pub mod OverPlan
