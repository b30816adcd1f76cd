pub mod Built
pub mod Room
pub mod Limits
pub mod Counting
