pub mod AsBox
pub mod Drawing
pub mod Leaving
pub mod NotGiven
