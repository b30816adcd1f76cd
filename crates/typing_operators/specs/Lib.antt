pub mod Rule
pub mod Conversions
pub mod Constants
pub mod Operators
pub mod Sound
pub mod Views
