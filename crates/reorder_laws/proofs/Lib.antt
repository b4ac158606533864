mod InOrder
pub mod Line
pub mod Places
pub mod ReorderDone
pub mod Reordered
mod Rows
