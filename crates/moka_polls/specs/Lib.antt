pub mod Polls
pub mod Gets
pub mod Writes
pub mod Loads
pub mod Removals
pub mod Calm
pub mod Times
