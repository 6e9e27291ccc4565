pub mod Scanning
pub mod Examples
pub mod RoundTrip
pub mod Limits
pub mod Days
