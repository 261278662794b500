pub mod Pendings
pub mod Truths
pub mod Puts
