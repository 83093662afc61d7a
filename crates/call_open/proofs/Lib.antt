-- Laws.
pub mod OfKinds
pub mod OpenPlan
pub mod Opening
