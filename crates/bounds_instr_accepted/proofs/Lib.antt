pub mod Accepted
pub mod Light
