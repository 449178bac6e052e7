pub mod Starts
pub mod Hits
pub mod Samples
