mod Leaving
pub mod Computing
pub mod Loading
pub mod Walking
