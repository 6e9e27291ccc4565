pub mod Lines
pub mod Computing
