pub mod Returns
pub mod Rows
