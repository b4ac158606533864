pub mod Added
pub mod Blobs
pub mod Coalesced
pub mod Deciding
pub mod Joined
pub mod Moved
pub mod MovedOps
mod Rows
pub mod Single
pub mod Staying
pub mod Unchanged
