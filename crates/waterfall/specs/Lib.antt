pub mod Seniority
pub mod Charging
pub mod Limits
pub mod Computing
