pub mod Outlooks
