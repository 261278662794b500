pub mod Ahead
pub mod Falling
