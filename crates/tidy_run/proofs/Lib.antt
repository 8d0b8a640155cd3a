pub mod FoundSoFar
pub mod Mapped
pub mod FirstLemmas
pub mod TabLemmas
pub mod RunLemmas
pub mod BlankLemmas
pub mod EndLemmas
mod Examples
mod ToldLemmas
mod WithinLemmas
mod FileLemmas
pub mod OfferLaws
pub mod WrittenLemmas
mod Ending
mod Follows
mod NotEnded
