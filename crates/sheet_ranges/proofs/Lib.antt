pub mod Every
pub mod Opened
pub mod Tables
pub mod Numbers
pub mod First
