pub mod Words
pub mod Running
pub mod Summing
pub mod Making
