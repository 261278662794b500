pub mod Places
pub mod Workloads
