mod Walks
mod Tells
pub mod Steps
mod Changes
