pub mod Address
pub mod Addresses
pub mod Handing
