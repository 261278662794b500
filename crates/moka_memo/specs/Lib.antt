pub mod Memo
pub mod Passing
