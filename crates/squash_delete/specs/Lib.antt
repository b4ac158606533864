pub mod Backing
pub mod Chains
pub mod Fates
pub mod Hangings
pub mod Judged
pub mod Sources
pub mod Standings
pub mod Taking
