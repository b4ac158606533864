pub mod EntryLemmas
pub mod FileLemmas
pub mod Parts
pub mod Written
