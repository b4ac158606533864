pub mod Added
pub mod Back
pub mod Done
pub mod Forward
pub mod Hung
pub mod Left
pub mod Parents
mod Rows
pub mod Shows
pub mod Squashed
pub mod Staying
pub mod Takes
