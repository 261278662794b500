pub mod Listings
pub mod Handing
pub mod Needing
pub mod Layers
pub mod Visiting
pub mod Counted
