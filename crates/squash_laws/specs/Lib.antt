pub mod Comments
pub mod Examples
pub mod Remaining
pub mod Removed
pub mod Squash
pub mod Takings
