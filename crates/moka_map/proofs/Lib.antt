pub mod Answering
pub mod Keys
pub mod Calls
pub mod Outcomes
pub mod Staying
pub mod Members
pub mod Arriving
pub mod Giving
