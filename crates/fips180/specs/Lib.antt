pub mod Constants
pub mod Words
pub mod Compression
pub mod Values
