pub mod Same
pub mod Right
pub mod Laws
pub mod Sources
pub mod Compiles
pub mod OneAnswer
pub mod KeepsKinds
