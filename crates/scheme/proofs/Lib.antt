pub mod Gifts
pub mod Guarding
