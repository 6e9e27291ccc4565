pub mod Price
pub mod Auction
pub mod Limits
pub mod Edge
pub mod Lent
pub mod Gathered
pub mod Computing
