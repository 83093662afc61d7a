-- Laws of the core.
pub mod Decided
pub mod KeepsRules
pub mod Known
pub mod SameTruth
pub mod Siblings
pub mod Letters
