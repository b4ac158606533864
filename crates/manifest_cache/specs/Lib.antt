pub mod Checking
pub mod Following
pub mod Kept
pub mod Lending
pub mod Lines
pub mod Listed
pub mod Walks
