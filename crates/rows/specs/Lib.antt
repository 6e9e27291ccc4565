pub mod Scans
pub mod Reading
pub mod Days
pub mod Computing
