pub mod Asked
pub mod Touchers
