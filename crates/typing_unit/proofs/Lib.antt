pub mod Seen
pub mod Pushed
pub mod Wholes
pub mod AllMarks
pub mod Answered
