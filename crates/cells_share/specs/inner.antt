-- What only proofs and inner contracts use.
pub mod Listed
pub mod Sharing
pub mod OverPlan
