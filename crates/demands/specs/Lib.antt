pub mod Demands
pub mod Schedule
pub mod Agreement
pub mod Stores
