pub mod Inputs
pub mod Trips
