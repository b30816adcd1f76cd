pub mod Views
pub mod Watched
pub mod Examples
