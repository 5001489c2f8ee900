pub mod Questions
pub mod Lives
pub mod Networks
pub mod Dated
pub mod Below
pub mod Common
