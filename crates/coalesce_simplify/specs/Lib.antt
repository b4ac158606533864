pub mod Joining
pub mod Voiding
