pub mod Stopping
pub mod Tellings
pub mod ByKey
pub mod Reported
pub mod Due
