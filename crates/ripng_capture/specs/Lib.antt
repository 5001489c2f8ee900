pub mod Numbers
pub mod Blocks
pub mod Packets
pub mod Checksum
pub mod Layout
pub mod Found
pub mod Damaged
pub mod Reading
