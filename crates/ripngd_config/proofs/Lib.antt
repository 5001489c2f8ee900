pub mod KeyLists
pub mod Arrays
pub mod Refusals
pub mod Texts
pub mod Pairs
pub mod Clashes
pub mod OneEach
pub mod Ranges
