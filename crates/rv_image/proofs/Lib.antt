pub mod Loops
pub mod Fields
pub mod Found
pub mod Again
