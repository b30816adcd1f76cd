pub mod Blocks
pub mod Pads
pub mod Table
pub mod Made
pub mod Memory
