pub mod Organs
pub mod Runs
pub mod Stars
