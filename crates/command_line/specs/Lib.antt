pub mod AskedFor
pub mod Rows
pub mod WordByWord
