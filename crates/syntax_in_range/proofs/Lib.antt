pub mod Parts
pub mod Derived
pub mod Lexed
