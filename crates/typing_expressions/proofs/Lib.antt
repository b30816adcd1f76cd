pub mod Tables
pub mod Steps
pub mod Refusals
pub mod Arguments
pub mod InTurn
pub mod Pushed
