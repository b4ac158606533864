pub mod Apart
pub mod Fates
pub mod Forms
pub mod Tests
pub mod Written
