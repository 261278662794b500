pub mod Splitting
pub mod Spelled
pub mod Fronts
pub mod CacheLine
pub mod Texts
pub mod Refused
