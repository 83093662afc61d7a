-- What only proofs and inner contracts use.
pub mod Joints
pub mod OverPlan
