pub mod Around
pub mod Bits
pub mod Examples
pub mod Kinds
pub mod Once
pub mod Sets
pub mod Subsets
pub mod Tied
