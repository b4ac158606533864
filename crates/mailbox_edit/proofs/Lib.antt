pub mod Given
pub mod Landed
pub mod Meant
pub mod Messages
