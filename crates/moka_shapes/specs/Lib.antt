pub mod Computes
pub mod Loads
pub mod Walks
