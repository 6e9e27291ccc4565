pub mod Asked
pub mod Computing
