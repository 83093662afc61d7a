-- What only proofs and inner contracts use.
pub mod Slots
pub mod Taking
pub mod OverPlan
