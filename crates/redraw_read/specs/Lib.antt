-- The vocabulary of what is read for a report.
pub mod AsShown
pub mod Counted
pub mod Edits
pub mod Extract
pub mod FileIndex
pub mod Labels
pub mod Loaded
pub mod Order
pub mod Placed
pub mod Places
pub mod Rendered
pub mod Roles
pub mod Rustc
pub mod ShownLines
pub mod Spans
pub mod Targets
pub mod Told
