mod Completion
mod Spelled
mod FirstDefect
mod Within
pub mod LastOperation
