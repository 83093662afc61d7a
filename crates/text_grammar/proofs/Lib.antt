-- Laws of the grammar and its readers.
pub mod Calls
pub mod Complete
pub mod Declaration
pub mod Examples
pub mod Parts
pub mod Positions
pub mod Readers
pub mod Signs
pub mod Sound
pub mod Theorems
