pub mod Standing
pub mod Wants
