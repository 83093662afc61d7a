-- Laws of the plan table.
pub mod BrokenTables
pub mod Bytes
pub mod Conjunctions
pub mod Encoding
pub mod Facts
pub mod FieldRules
pub mod Laid
pub mod Opened
pub mod Own
pub mod Parts
pub mod Ready
pub mod Rooted
pub mod Writing
