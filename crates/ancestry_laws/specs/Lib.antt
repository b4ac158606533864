pub mod Ancestry
pub mod Examples
