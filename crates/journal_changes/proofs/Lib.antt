pub mod Fields
pub mod Recorded
pub mod Taken
pub mod Runs
pub mod Played
