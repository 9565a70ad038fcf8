pub mod Kept
pub mod Opened
pub mod Serving
