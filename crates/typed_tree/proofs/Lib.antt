pub mod TypesCases
pub mod TypedLemmas
pub mod SizeLemmas
pub mod TypedPrograms
pub mod TypedViewed
pub mod Refused
pub mod Objects
