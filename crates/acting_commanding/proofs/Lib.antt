pub mod Made
pub mod Opened
pub mod Parts
pub mod Presses
pub mod TwoPairs
