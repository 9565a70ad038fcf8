pub mod Bad
pub mod Made
pub mod Parts
