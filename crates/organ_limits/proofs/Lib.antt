pub mod Facts
pub mod Opened
pub mod Within
