-- Laws of the text of a plan.
pub mod Derived
pub mod Known
pub mod Letters
pub mod Lexing
pub mod PlanCore
pub mod Spelled
