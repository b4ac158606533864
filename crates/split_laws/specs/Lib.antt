pub mod Examples
pub mod Split
pub mod SplitTrees
