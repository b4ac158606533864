pub mod Counts
pub mod Lines
pub mod NamedMarks
pub mod Numbers
pub mod Words
