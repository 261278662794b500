pub mod Names
pub mod Found
pub mod Steps
pub mod Mapped
pub mod Grown
pub mod Divided
