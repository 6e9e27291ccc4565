pub mod Whole
pub mod Turning
pub mod Ends
