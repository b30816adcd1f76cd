mod Encodable
pub mod Labels
pub mod Leading
mod Resolvable
mod Shaped
mod ShapedText
pub mod Sizes
mod Sound
