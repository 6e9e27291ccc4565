pub mod Lists
pub mod Order
pub mod Tests
pub mod Refusals
pub mod Adding
pub mod Widths
pub mod Computing
