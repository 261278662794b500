pub mod Made
pub mod Turns
pub mod Words
pub mod Workload
