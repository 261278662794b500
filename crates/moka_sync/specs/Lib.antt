pub mod Waiting
pub mod Standing
pub mod CallsLeft
pub mod WaitView
pub mod Holders
pub mod OnePlace
pub mod Tickets
