pub mod Spelled
pub mod Serving
