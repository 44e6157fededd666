pub mod Stores
pub mod Sending
pub mod Fits
