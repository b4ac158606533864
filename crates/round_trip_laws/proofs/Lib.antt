pub mod Points
pub mod WrittenLines
pub mod PassedLines
pub mod FoundAgain
pub mod WrittenOps
pub mod WrittenEvents
pub mod WrittenCommits
pub mod Again
pub mod Rows
mod Bare
mod BareTexts
