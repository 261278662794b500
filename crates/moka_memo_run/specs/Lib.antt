pub mod Lines
pub mod Forms
pub mod Places
pub mod Replies
pub mod Playing
