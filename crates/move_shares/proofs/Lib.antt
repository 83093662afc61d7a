-- Laws.
pub mod Alike
pub mod OfKinds
pub mod Roots
pub mod Swaps
pub mod Unused
pub mod Words
