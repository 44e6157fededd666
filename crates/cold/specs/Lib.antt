pub mod Kinds
pub mod Tally
pub mod Listing
pub mod NoSecond
