pub mod Made
pub mod OfKind
pub mod Opened
