pub mod Decimal
pub mod Writing
pub mod Playing
pub mod Going
pub mod Rest
