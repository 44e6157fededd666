pub mod Codes
pub mod Serves
pub mod Chosen
