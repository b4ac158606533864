pub mod Answers
pub mod Blocks
pub mod Cursors
pub mod Quotes
pub mod Spellings
pub mod Written
