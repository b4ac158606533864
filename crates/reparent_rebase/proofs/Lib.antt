pub mod Answered
pub mod Descending
pub mod Fewer
pub mod Rewritten
