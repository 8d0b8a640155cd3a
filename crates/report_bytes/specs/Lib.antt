pub mod Bytes
pub mod Reading
pub mod Report
pub mod Request
