pub mod Narrow
pub mod Narrows
