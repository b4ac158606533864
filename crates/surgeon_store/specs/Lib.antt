pub mod Disk
pub mod Entries
pub mod Failing
pub mod Memory
pub mod Outside
pub mod Promises
pub mod Trouble
pub mod WholeFiles
