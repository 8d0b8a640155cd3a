pub mod Answer
pub mod Case
pub mod Line
pub mod Outcome
