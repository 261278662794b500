pub mod ReadBack
pub mod Replaced
