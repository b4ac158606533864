pub mod Example
pub mod Limits
pub mod Lines
pub mod Machine
