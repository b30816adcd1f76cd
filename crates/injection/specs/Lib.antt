pub mod Words
pub mod Memory
pub mod Trail
pub mod Worlds
pub mod Copies
pub mod Laws
