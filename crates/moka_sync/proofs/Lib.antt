pub mod Stands
pub mod Others
