pub mod Renumbered
pub mod Worked
