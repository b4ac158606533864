pub mod Below
pub mod CommitLemmas
pub mod Keeping
pub mod Known
pub mod Meeting
pub mod Parts
pub mod Stepping
