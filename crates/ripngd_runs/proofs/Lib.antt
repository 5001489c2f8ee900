pub mod Asking
pub mod Cutting
pub mod Dating
pub mod Growing
pub mod Obeying
pub mod Ordering
pub mod Programs
pub mod Running
pub mod Shapes
pub mod Staying
pub mod Weaving
mod Witness
