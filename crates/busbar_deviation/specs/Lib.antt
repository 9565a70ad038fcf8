pub mod Deviation
pub mod Stars
