mod Edits
pub mod Halves
pub mod NewIds
pub mod SplitDone
