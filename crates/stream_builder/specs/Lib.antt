pub mod Judging
pub mod Building
pub mod Agreement
pub mod Pushing
pub mod Operating
pub mod Lines
pub mod Keeping
