pub mod Cases
pub mod Done
pub mod Fill
pub mod Joined
pub mod Opened
pub mod Places
pub mod Signed
pub mod Written
