pub mod Leasts
pub mod Turns
