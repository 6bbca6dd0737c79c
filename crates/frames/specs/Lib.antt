pub mod Offsets
pub mod Chain
pub mod Directions
pub mod Feeds
pub mod Progress
