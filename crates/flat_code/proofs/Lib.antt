pub mod CodeViewed
pub mod Emitted
pub mod Picked
