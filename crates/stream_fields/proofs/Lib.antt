pub mod BlockSteps
pub mod DigitLemmas
pub mod Fronts
pub mod Places
pub mod QuoteSteps
pub mod Rests
pub mod SpelledFronts
pub mod WholePeople
