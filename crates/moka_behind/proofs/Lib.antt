pub mod Smalls
pub mod Running
pub mod Keys
pub mod Behinds
pub mod Evictions
