pub mod Common
pub mod CharLemmas
pub mod PieceLemmas
pub mod PlacedLemmas
pub mod RowLemmas
