pub mod Exact
pub mod Fields
pub mod Readings
pub mod Stars
