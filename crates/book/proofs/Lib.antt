pub mod Parts
pub mod Sound
pub mod Shown
pub mod Outputs
pub mod ResultShown
