pub mod Examples
pub mod Faults
pub mod Merge
pub mod Operations
pub mod Remaining
pub mod Reparent
pub mod WrittenOut
