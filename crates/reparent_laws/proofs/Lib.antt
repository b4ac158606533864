pub mod Again
pub mod Blobs
pub mod Changed
pub mod Checked
pub mod Cycles
pub mod ListOrder
pub mod Merged
mod OneCommit
pub mod Onto
pub mod Operated
pub mod Puts
pub mod ReparentDone
pub mod Reparented
pub mod TreeFacts
