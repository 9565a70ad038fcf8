pub mod Kept
pub mod Opened
