pub mod Bodies
pub mod Laws
pub mod Programs
pub mod Runs
pub mod Tests
