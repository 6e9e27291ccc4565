pub mod Forms
pub mod Put
pub mod Encode
pub mod Computing
