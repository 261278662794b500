pub mod Shown
pub mod Spelled
pub mod Plays
mod Cut
pub mod Runs
