pub mod Descent
pub mod Pasts
pub mod Paths
mod Rows
