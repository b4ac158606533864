pub mod Values
pub mod Shifts
