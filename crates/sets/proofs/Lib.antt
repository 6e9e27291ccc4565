pub mod Bits
pub mod Members
pub mod Writes
pub mod Adding
pub mod Gathering
