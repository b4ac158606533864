pub mod Aliased
pub mod Events
pub mod Indexed
pub mod Rising
pub mod Whole
