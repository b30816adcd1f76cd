pub mod Pointers
pub mod Moves
