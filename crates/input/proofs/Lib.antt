pub mod Buttons
pub mod Numbers
pub mod Opened
