-- Laws.
mod Crossing
mod Flat
mod Listing
pub mod Standing
mod Steps
pub mod Taking
