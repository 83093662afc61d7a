-- Laws.
pub mod Listing
pub mod Sharing
