pub mod Fuel
pub mod Kept
pub mod Loops
pub mod Names
pub mod NotRead
pub mod Taken
pub mod Through
pub mod Values
