pub mod Initials
pub mod Forms
pub mod CallMarks
