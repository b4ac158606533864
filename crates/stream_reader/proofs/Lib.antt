mod Steps
mod Pieces
mod Lines
mod Taken
pub mod Ends
mod Spelled
