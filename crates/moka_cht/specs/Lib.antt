pub mod Nodes
pub mod Probes
pub mod Buckets
pub mod Calls
