pub mod Mixer
pub mod Mixes
