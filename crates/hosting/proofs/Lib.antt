pub mod Lists
pub mod Hosted
