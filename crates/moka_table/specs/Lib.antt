pub mod Map
pub mod Plain
pub mod Empty
