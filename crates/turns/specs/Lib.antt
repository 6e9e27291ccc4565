pub mod Keys
pub mod Computing
