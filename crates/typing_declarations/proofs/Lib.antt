pub mod InScopes
pub mod Layouts
pub mod GivenCounts
