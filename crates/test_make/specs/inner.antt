pub mod Putting
pub mod OverPlan
