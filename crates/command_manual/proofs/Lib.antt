pub mod Made
pub mod Opened
pub mod Presses
