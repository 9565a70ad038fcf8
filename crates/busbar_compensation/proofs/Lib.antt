pub mod Drops
pub mod Facts
pub mod Opened
