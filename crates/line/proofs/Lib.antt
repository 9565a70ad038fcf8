pub mod Bounds
pub mod Parts
pub mod Made
pub mod Facts
pub mod Worked
