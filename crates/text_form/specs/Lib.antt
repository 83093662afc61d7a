pub mod Form
pub mod Spelling
