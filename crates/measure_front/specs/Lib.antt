pub mod Fronts
pub mod Judging
