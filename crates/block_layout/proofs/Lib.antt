pub mod Loops
pub mod Sums
pub mod Places
pub mod Small
pub mod Spots
