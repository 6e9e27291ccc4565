pub mod Placing
pub mod Widths
pub mod Lines
pub mod Taking
pub mod Ending
pub mod CutOff
pub mod Printing
pub mod Streaming
