pub mod Emitted
pub mod KeptLocals
pub mod Readied
