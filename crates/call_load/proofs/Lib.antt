-- Laws.
pub mod Opening
