pub mod CodeSamples
pub mod States
pub mod Codes
pub mod Ends
pub mod Nearest
pub mod Hits
pub mod Separate
