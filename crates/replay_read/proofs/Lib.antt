pub mod Lines
pub mod Listing
pub mod Spans
pub mod Units
