pub mod Kept
pub mod Pasts
pub mod Delays
pub mod Memories
