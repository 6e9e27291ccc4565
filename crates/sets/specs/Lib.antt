pub mod Set
pub mod Computing
