pub mod Lines
pub mod Parts
pub mod Taking
pub mod Starts
