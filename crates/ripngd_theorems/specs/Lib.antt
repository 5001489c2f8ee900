pub mod Daemons
pub mod Links
pub mod OnTime
pub mod Ages
pub mod Delivering
pub mod LastUpdate
pub mod Below
pub mod Common
