pub mod Places
pub mod Steps
pub mod Groups
pub mod Shown
pub mod Computing
