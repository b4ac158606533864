pub mod Judged
pub mod Landings
