pub mod EmptyCache
pub mod Fitting
pub mod Steps
pub mod Publishing
