pub mod LastTips
pub mod Noted
pub mod TipEntries
