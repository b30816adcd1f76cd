pub mod Loading
pub mod Storing
pub mod Checking
pub mod Looking
pub mod Framed
