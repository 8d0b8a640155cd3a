pub mod Again
pub mod DefaultSheet
pub mod Members
pub mod OverKept
pub mod PlainStyle
pub mod Texts
pub mod Whole
