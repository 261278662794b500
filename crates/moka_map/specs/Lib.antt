pub mod Maps
pub mod Calls
pub mod Coming
