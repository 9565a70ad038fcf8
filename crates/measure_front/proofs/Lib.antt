pub mod FirstStep
pub mod Fronts
pub mod Judging
