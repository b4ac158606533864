mod Pieces
mod Halting
mod Denying
mod ListChanges
mod Readying
mod LoadedFiles
mod FileEdits
mod Sent
pub mod Rounds
pub mod SessionRounds
pub mod RunningTo
mod Sessions
mod Waiting
