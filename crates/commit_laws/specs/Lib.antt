pub mod Rewriting
pub mod Selected
