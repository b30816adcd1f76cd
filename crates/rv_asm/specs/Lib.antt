pub mod Parts
pub mod Text
pub mod Runs
pub mod Resolving
