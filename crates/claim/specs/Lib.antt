pub mod Claim
pub mod Runs
pub mod Scenes
