pub mod Lacking
pub mod Present
pub mod Sides
