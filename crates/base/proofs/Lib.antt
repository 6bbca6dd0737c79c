pub mod Parts
pub mod Passes
pub mod Numbers
pub mod Comparisons
pub mod Pads
pub mod Cuts
pub mod Xors
pub mod Doubles
