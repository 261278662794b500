pub mod Tests
pub mod Outcomes
pub mod Polled
