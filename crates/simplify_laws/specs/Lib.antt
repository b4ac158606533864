pub mod Examples
pub mod Remaining
pub mod Simplify
