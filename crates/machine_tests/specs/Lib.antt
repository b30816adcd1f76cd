pub mod Around
pub mod Programs
