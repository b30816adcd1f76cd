pub mod Constructs
pub mod Steps
pub mod Slots
