pub mod Refusals
pub mod Codes
pub mod Entry
pub mod Promise
