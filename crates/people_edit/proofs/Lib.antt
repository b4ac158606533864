pub mod Cuts
pub mod Named
pub mod OtherKinds
pub mod Planned
pub mod Tabled
pub mod Undated
pub mod Unvalued
