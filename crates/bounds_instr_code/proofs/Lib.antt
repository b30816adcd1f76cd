pub mod Fits
pub mod Emitted
pub mod Coded
