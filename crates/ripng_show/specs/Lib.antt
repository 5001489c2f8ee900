pub mod Shown
pub mod Judged
