pub mod Facts
pub mod Opened
pub mod Picked
pub mod Values
