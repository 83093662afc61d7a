-- Laws.
pub mod Rules
