pub mod Commits
pub mod GreatestMarks
pub mod Ids
pub mod JoinedPaths
pub mod KeptPaths
pub mod LineLaws
pub mod Lists
pub mod PathLaws
pub mod PlacedIds
pub mod Results
mod Rows
pub mod SoundDates
pub mod SoundMarks
pub mod SoundOnce
pub mod TreeLaws
pub mod TreeMapping
pub mod TreeMaps
