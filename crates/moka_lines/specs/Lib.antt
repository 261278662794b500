pub mod Words
pub mod Texts
pub mod Lines
pub mod Programs
pub mod Statuses
