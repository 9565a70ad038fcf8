pub mod Sheet
pub mod Settings
