pub mod Part
pub mod Standing
