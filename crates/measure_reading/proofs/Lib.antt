pub mod Qualities
