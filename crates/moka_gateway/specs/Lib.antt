pub mod Fetches
pub mod Folds
pub mod Gateway
