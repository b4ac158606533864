pub mod Ages
pub mod Appended
pub mod Dates
pub mod Grafting
pub mod Numbering
pub mod Placed
pub mod Uniting
pub mod Used
