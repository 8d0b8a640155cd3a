pub mod Common
pub mod Borders
pub mod BoundsLemmas
pub mod CountLemmas
pub mod CursorLemmas
pub mod IndexLemmas
pub mod LinesLemmas
mod NotIndexed
pub mod NumberLemmas
pub mod OrderLemmas
pub mod PlaceLemmas
pub mod StartLemmas
pub mod TextLinesLemmas
pub mod UnitLemmas
pub mod Walk
