pub mod Opened
pub mod Presses
pub mod Sound
