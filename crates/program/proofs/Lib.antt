pub mod NotGiven
pub mod Shown
pub mod Lending
pub mod Ended
pub mod Numbers
