pub mod Tables
pub mod Fills
pub mod Pads
pub mod Exponents
