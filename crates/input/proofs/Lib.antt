pub mod Strings
pub mod Pieces
pub mod Fields
pub mod Fronts
pub mod Wholes
pub mod Parts
