mod Changing
mod Dividing
mod Entries
mod Joining
mod NamedEntries
mod PathWords
mod Places
mod SeveralNames
pub mod Speaking
mod Uniting
