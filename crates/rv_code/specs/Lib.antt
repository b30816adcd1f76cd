pub mod Bits
pub mod Code
pub mod Formats
pub mod Laws
