pub mod Made
pub mod Opened
