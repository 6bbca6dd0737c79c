pub mod Shown
pub mod Lines
