pub mod Serving
pub mod Drained
pub mod Proved
pub mod Schedule
pub mod Agreed
pub mod Stores
