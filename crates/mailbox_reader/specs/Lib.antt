pub mod FirstTags
pub mod Judged
pub mod Lower
pub mod Reading
