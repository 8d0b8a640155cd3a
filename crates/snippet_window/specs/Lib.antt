pub mod Extent
pub mod Margin
pub mod Measures
pub mod NearPart
pub mod Window
