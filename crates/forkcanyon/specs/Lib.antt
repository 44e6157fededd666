pub mod ShortHost
pub mod NoSecond
pub mod ColdNoSecond
pub mod ShortNoSecond
pub mod Theorems
