-- What only proofs and inner contracts use.
pub mod Listing
pub mod Shares
