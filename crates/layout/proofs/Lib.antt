pub mod Splice
pub mod Fields
pub mod RoundTrip
pub mod TableTrips
pub mod Places
pub mod Zeros
pub mod Whole
