pub mod Fronts
pub mod Landed
