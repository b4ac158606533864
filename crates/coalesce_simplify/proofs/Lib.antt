pub mod Joins
pub mod Leading
pub mod Left
pub mod Noting
pub mod Voided
pub mod Walks
