-- Laws.
mod Filling
mod Sizes
