pub mod Lower
pub mod Ready
