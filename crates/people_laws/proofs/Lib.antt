pub mod Clean
pub mod Each
pub mod Labels
pub mod Moved
pub mod Put
pub mod Refused
pub mod Rows
pub mod Valued
