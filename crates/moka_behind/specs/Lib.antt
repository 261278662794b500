pub mod Holding
pub mod Looking
pub mod Evicting
pub mod Stored
pub mod Behind
pub mod Telling
