pub mod Lists
pub mod Refused
pub mod Runs
pub mod Shut
pub mod Ticks
pub mod Worked
