pub mod Pushes
pub mod Calling
pub mod Entering
pub mod Functions
pub mod Bodies
pub mod Followed
pub mod Calls
