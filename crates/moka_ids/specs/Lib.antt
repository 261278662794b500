pub mod Drawn
pub mod Text
