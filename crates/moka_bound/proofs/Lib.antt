pub mod More
pub mod Falls
pub mod Size
