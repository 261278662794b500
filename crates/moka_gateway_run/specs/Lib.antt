pub mod Pieces
pub mod Lines
pub mod Forms
pub mod Replies
pub mod Playing
pub mod Cutting
