pub mod Emitted
pub mod Read
