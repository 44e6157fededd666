pub mod Map
pub mod Vector
pub mod Clock
pub mod Lists
