pub mod Arranged
pub mod Below
pub mod Halving
pub mod Listed
pub mod Permuted
pub mod Relinked
pub mod SplitDone
