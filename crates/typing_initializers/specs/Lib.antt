pub mod InitializerSteps
pub mod Marks
