pub mod Frame
pub mod Loaded
pub mod Fits
pub mod InReach
pub mod ImageOf
pub mod Laws
