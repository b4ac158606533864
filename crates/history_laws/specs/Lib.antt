pub mod Counts
pub mod Examples
pub mod Finding
pub mod FirstParents
pub mod Once
pub mod Placed
pub mod SoundTrees
