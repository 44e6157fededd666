pub mod Counting
pub mod Listing
