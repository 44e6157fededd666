pub mod Proved
pub mod Used
