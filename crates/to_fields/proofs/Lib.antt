pub mod Lines
pub mod Sizes
pub mod Turning
pub mod Ends
