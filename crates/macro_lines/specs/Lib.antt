pub mod Left
pub mod Macros
pub mod Places
pub mod Put
pub mod Taken
