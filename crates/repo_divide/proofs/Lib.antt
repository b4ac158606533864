pub mod DividingLemmas
pub mod HalvingLemmas
pub mod WalkLemmas
