pub mod Showing
pub mod Machine
pub mod Promises
