pub mod Maps
pub mod Says
pub mod Below
pub mod Bits
pub mod Cells
pub mod Compares
pub mod Sums
