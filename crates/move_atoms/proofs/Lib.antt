-- Laws.
mod Forests
