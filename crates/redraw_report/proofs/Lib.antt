pub mod Columns
pub mod Joined
pub mod Keyed
pub mod NotLinked
pub mod OneMark
pub mod SafeLinks
pub mod Sections
