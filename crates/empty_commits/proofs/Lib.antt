pub mod MovingLemmas
pub mod NameLemmas
pub mod PlacingLemmas
pub mod TaggingLemmas
