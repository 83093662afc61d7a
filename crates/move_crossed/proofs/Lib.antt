-- Laws.
mod Atoms
mod Listing
mod Sizes
