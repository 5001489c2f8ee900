pub mod Failing
pub mod Runs
mod WordTexts
mod Readings
mod OneReading
mod OneRun
mod Passing
pub mod Courses
