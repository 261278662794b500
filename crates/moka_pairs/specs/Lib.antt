pub mod Keys
pub mod Pairs
pub mod Segments
pub mod Laws
