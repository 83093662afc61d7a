-- Laws.
pub mod Ranking
