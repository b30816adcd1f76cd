pub mod Safety
pub mod Seen
pub mod Laws
pub mod Examples
