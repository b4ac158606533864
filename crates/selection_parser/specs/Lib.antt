pub mod Answers
pub mod Plain
pub mod Readers
pub mod Reading
pub mod Spelling
pub mod Texts
pub mod Views
