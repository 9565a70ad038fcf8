pub mod Reading
pub mod Rules
pub mod Stamps
pub mod Texts
