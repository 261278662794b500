pub mod Basics
pub mod Fitting
pub mod Rows
pub mod Standing
