mod NotStopped
pub mod AnsweredInputs
pub mod AnsweredLines
pub mod Asking
pub mod Checking
pub mod CommandLines
pub mod Commands
pub mod Ending
pub mod Growing
pub mod Reading
pub mod Told
