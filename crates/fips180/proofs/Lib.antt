pub mod Turns
pub mod Strings
pub mod Mapped
pub mod Schedules
pub mod Compressed
