pub mod After
pub mod Aliased
pub mod Indexes
pub mod Places
pub mod Rising
