pub mod Naming
pub mod Ages
