pub mod Fours
pub mod Pools
pub mod Members
pub mod Rounds
pub mod Bids
pub mod Computing
