pub mod TwoPass
pub mod Feeds
pub mod Kinds
pub mod Sums
pub mod Means
pub mod Laws
