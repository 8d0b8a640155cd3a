pub mod CloneLemmas
pub mod RowLemmas
pub mod ZipLemmas
