pub mod InRange
pub mod Laws
