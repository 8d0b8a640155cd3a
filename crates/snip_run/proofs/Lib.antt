pub mod Fitting
pub mod Reading
pub mod Reporting
pub mod Ending
mod NotEnded
mod Follows
