pub mod Plain
pub mod Evaluator
pub mod Steps
pub mod Sound
pub mod Claimed
pub mod Laws
pub mod Finishing
