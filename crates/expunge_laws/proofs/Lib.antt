pub mod Added
pub mod Again
pub mod Carried
pub mod Changed
pub mod Earlier
pub mod Emptied
pub mod Finished
pub mod Forwarded
pub mod InLine
pub mod InPlace
pub mod InTurn
pub mod MovedPaths
pub mod Nearby
pub mod OpsAgain
pub mod OpsOutside
mod ParentsLeft
pub mod Replacing
pub mod Sides
mod StayingLeft
pub mod Still
pub mod TreesLeft
pub mod Whole
