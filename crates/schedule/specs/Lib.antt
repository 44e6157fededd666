pub mod Step
pub mod Text
pub mod Written
pub mod Listing
pub mod Examples
pub mod Theorems
