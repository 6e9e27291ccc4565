pub mod Words
pub mod Shares
