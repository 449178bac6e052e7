pub mod Refusals
pub mod Controls
pub mod Tally
