pub mod AsRead
pub mod Worked
