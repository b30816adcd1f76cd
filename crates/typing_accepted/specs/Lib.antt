pub mod AcceptanceOperands
pub mod AcceptanceExpressions
pub mod AcceptanceLaws
pub mod AcceptanceDeclarators
pub mod AcceptanceStatements
pub mod AcceptanceFiles
