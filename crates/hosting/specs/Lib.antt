pub mod Hosting
pub mod Lists
