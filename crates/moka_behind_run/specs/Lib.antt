pub mod Calls
pub mod Reading
pub mod Replies
pub mod Playing
