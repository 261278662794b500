pub mod Laying
pub mod Awaiting
pub mod Lengths
pub mod Taking
