pub mod Voltage
pub mod Stars
