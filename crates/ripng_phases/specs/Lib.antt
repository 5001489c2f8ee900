pub mod Below
pub mod Changing
pub mod Phases
pub mod Minutes
pub mod Ages
pub mod Refusing
pub mod Making
pub mod Common
