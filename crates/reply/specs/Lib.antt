pub mod Reply
pub mod Told
pub mod Worked
