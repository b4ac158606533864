pub mod Examples
pub mod Meanings
pub mod Productions
pub mod Raw
pub mod Streams
pub mod Texts
