pub mod Cases
pub mod View
pub mod Readings
pub mod Input
pub mod Claim
pub mod Computing
