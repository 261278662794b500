pub mod Beginning
pub mod Lists
pub mod Fetching
pub mod Answering
pub mod Rows
pub mod Parts
pub mod After
