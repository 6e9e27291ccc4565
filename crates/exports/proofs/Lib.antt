pub mod Asking
pub mod Prices
pub mod Final
pub mod Machine
pub mod Examples
