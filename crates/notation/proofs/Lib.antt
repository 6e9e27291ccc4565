pub mod Codes
pub mod Scanning
pub mod Numbers
pub mod Keys
pub mod Sets
pub mod Lines
pub mod RoundTrip
pub mod Returns
