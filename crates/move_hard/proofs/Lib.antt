-- Laws.
mod Hards
