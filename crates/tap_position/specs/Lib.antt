pub mod Positions
pub mod Stars
