pub mod Calls
pub mod Handed
pub mod TheTable
pub mod Machine
pub mod Listed
pub mod NumberTest
pub mod WantOfMemory
