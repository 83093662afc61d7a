-- Laws.
pub mod Ends
pub mod Loop
pub mod Steps
