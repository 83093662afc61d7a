-- What only proofs and inner contracts use.
pub mod Reading
pub mod Telling
pub mod OverPlan
