pub mod Copies
pub mod Ordered
pub mod Parents
