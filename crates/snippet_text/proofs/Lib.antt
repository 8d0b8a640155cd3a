pub mod NormLemmas
pub mod PlainLemmas
pub mod SplitLemmas
pub mod WidthBounds
pub mod WidthLemmas
pub mod WidthRanges
