pub mod Causes
pub mod Facts
pub mod Kept
pub mod Opened
