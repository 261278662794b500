pub mod EmptyCache
pub mod Fitting
pub mod Rests
pub mod Turns
