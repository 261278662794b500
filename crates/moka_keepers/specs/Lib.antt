pub mod Writes
pub mod Keeping
pub mod Pending
pub mod Owing
pub mod Counts
pub mod MapKept
pub mod PlainKept
