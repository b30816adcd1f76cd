pub mod Layout
pub mod Objects
pub mod Answers
pub mod Laws
pub mod Views
