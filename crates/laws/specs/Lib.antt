pub mod Taken
pub mod Theorems
pub mod Touches
pub mod Looks
pub mod Agreement
pub mod Retirement
