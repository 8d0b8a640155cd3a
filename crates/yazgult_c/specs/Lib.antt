pub mod AnswerBytes
pub mod GivenBytes
pub mod Keeping
pub mod KeptSources
