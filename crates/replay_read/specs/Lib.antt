pub mod Kinds
pub mod Report
pub mod Ruled
pub mod Shape
pub mod Sheet
pub mod MarkerSpan
pub mod Stops
