pub mod Opened
pub mod Starts
