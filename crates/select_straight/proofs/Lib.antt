pub mod Straight
pub mod Asking
pub mod Raw
