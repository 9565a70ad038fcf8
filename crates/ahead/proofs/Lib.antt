pub mod Apart
pub mod Begun
pub mod Found
pub mod Laws
pub mod Longer
pub mod Outs
pub mod Waits
pub mod Worked
