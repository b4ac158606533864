pub mod Again
pub mod Exact
pub mod Kept
pub mod Room
mod Rows
pub mod Simplified
pub mod Voided
