pub mod Coalesce
pub mod Examples
pub mod Remaining
