pub mod Numbers
pub mod Files
pub mod Noting
pub mod Answering
pub mod CommandLine
pub mod Complete
