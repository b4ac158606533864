pub mod Colons
pub mod FirstNames
pub mod HeadLines
pub mod Together
