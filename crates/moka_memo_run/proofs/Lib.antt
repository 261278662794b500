pub mod Spelled
pub mod Placed
pub mod Acyclic
pub mod Replying
