pub mod Declarators
pub mod DeclaratorSteps
pub mod Structs
pub mod StructSteps
