pub mod Strings
pub mod Pieces
pub mod Fields
pub mod Computing
