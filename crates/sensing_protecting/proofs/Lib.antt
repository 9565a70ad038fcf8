pub mod Opened
pub mod Made
