pub mod Codec
pub mod State
pub mod Ranges
pub mod Fields
pub mod Records
pub mod Parts
pub mod Theorems
