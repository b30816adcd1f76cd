pub mod Kinds
pub mod Told
pub mod Live
pub mod Safety
pub mod Laws
