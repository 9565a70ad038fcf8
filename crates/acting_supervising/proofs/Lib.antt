pub mod EachKind
pub mod Opened
