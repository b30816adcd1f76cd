pub mod Statements
pub mod StatementSteps
