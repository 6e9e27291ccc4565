pub mod Reserves
pub mod Text
pub mod Computing
