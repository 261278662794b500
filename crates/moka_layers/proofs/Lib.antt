pub mod Listings
pub mod TableSteps
pub mod Undrawn
pub mod Wanted
pub mod Visited
