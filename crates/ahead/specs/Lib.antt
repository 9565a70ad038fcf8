pub mod Looking
pub mod Words
