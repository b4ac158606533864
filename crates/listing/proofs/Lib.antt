pub mod Found
pub mod KindCounts
pub mod Lines
pub mod ManifestLemmas
pub mod StampLemmas
