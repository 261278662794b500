pub mod Needs
pub mod Reads
