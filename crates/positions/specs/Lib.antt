pub mod Days
pub mod Keeping
pub mod Claim
pub mod Computing
