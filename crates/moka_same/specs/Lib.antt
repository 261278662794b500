pub mod Alike
pub mod Determined
