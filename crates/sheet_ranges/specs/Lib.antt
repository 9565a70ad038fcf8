pub mod Table
pub mod Columns
pub mod Ranges
