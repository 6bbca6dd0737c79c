pub mod Bytes
pub mod Refusals
