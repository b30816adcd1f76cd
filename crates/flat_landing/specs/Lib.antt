pub mod Shared
pub mod Lands
pub mod Laws
