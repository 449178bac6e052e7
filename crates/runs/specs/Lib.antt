pub mod Reading
pub mod Calls
pub mod Refusals
pub mod Answers
pub mod Samples
