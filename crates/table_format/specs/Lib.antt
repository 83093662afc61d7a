pub mod BrokenTables
pub mod Bytes
pub mod Decode
pub mod Rules
pub mod inner
