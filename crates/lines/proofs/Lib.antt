pub mod Copies
pub mod Decimals
pub mod Numbers
