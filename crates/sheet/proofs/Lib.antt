pub mod Answers
pub mod Exact
pub mod Laws
pub mod Opened
