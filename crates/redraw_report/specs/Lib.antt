-- The vocabulary of reports that are made from what tools tell.
pub mod Gone
pub mod Links
pub mod Region
pub mod Report
pub mod SameSource
pub mod ShownText
pub mod Sight
pub mod SourceKey
pub mod View
