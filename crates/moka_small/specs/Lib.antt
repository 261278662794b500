pub mod Small
pub mod Polled
pub mod Seen
pub mod Laws
pub mod Standing
pub mod Given
