pub mod Words
pub mod Arrays
pub mod Later
pub mod Layout
pub mod Effect
pub mod Rehash
pub mod Laws
