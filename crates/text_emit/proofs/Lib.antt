-- Laws.
pub mod Bytes
pub mod Emitting
pub mod Forests
pub mod Joints
pub mod Literals
pub mod Whole
