pub mod Empties
pub mod Names
pub mod Tagging
