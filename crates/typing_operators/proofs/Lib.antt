pub mod Members
pub mod Steps
pub mod Converted
pub mod SoundUnary
pub mod SoundBinary
pub mod SoundPlaces
