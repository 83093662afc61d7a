-- What only proofs and inner contracts use.
pub mod Below
pub mod Nodes
pub mod Root
pub mod Visit
pub mod OverPlan
