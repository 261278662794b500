pub mod Entries
pub mod States
pub mod Logs
pub mod Cells
pub mod Rules
pub mod Laws
pub mod Keeping
pub mod Moving
