pub mod Collisions
pub mod Commits
pub mod Courses
pub mod Pairs
pub mod Wholes
