pub mod Telling
pub mod Alike
