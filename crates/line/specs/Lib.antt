pub mod Along
pub mod Stars
