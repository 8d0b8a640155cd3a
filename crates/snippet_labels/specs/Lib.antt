pub mod LabelSize
pub mod Pieces
pub mod PlacedEntries
pub mod Positions
pub mod Placing
