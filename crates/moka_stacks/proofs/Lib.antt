pub mod Nearest
pub mod Ordered
