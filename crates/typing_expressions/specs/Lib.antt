pub mod Names
pub mod Scene
pub mod Parts
pub mod Expressions
pub mod Initializers
