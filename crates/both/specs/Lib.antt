pub mod ColdHost
