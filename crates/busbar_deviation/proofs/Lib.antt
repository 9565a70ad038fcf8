pub mod Halves
pub mod Limits
pub mod Opened
pub mod Bands
pub mod Laws
