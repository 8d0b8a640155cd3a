pub mod LinkAddress
pub mod TextBounds
pub mod Normalized
pub mod OneLine
pub mod Plain
pub mod Width
