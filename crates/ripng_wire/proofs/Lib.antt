mod Numbers
pub mod Entries
pub mod FirstReason
pub mod Appending
pub mod Spellings
pub mod OneReading
