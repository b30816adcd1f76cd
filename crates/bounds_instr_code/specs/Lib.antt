pub mod Code
pub mod Built
