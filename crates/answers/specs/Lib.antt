pub mod Boundary
pub mod Moving
