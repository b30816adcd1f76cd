pub mod OfNumbers
pub mod CodeNumbers
pub mod FlatItems
pub mod FitCode
pub mod Whole
pub mod CalmCode
