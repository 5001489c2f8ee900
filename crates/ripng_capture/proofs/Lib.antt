pub mod Words
pub mod Sizes
pub mod Standing
