pub mod Spelled
pub mod Asked
pub mod Runs
pub mod Summed
pub mod Whole
pub mod Listings
pub mod OneSummary
