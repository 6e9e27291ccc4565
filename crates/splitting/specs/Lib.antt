pub mod Split
pub mod Ranking
pub mod Limits
pub mod Parts
pub mod Claim
pub mod Computing
