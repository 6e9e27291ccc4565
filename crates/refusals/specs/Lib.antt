pub mod Answers
pub mod Computing
