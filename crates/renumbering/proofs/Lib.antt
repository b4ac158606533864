mod Edits
pub mod Few
pub mod Kept
pub mod Marks
pub mod Sound
pub mod Steps
