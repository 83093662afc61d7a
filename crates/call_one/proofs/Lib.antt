-- Laws.
pub mod Lending
pub mod OneCall
