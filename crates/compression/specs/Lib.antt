pub mod Answers
pub mod Parts
