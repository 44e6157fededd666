pub mod Host
pub mod NoSecond
