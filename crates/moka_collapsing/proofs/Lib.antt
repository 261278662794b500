pub mod Listed
pub mod Flushing
pub mod Ordering
pub mod Cutting
pub mod Serving
pub mod Asking
pub mod Leaving
pub mod Settling
mod Lawful
mod Slots
mod Holding
pub mod Sending
mod Feeding
mod Giving
mod Closing
mod Due
mod Happening
mod Staying
mod Serves
