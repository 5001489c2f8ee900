pub mod Outages
pub mod Ways
pub mod Text
pub mod Telling
