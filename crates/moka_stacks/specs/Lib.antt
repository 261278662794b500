pub mod Places
pub mod Queries
