pub mod Calendars
pub mod Dates
pub mod Examples
