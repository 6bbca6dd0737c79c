pub mod Counts
pub mod Turns
pub mod Goings
pub mod Pages
pub mod Summings
pub mod Tallies
pub mod Laws
