pub mod Members
pub mod Opened
