pub mod Protecting
