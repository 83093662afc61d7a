-- Laws.
pub mod Count
pub mod Known
pub mod Listing
pub mod Order
pub mod Stepping
