pub mod Cases
pub mod Opened
