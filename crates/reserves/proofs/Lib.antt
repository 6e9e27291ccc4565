pub mod Alike
pub mod Seen
pub mod Text
pub mod Claims
pub mod Worked
