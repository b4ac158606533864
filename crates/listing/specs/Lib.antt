pub mod Examples
pub mod Finding
pub mod Listings
pub mod Stamping
pub mod Stamps
pub mod Summaries
pub mod TreeListings
