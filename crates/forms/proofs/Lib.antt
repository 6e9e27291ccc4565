pub mod Puts
pub mod Table
pub mod Values
pub mod Codec
