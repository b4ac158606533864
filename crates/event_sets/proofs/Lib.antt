pub mod BitLemmas
pub mod LiveLemmas
pub mod NearLemmas
pub mod OnceLemmas
pub mod SetLemmas
