pub mod Feed
pub mod Machine
pub mod Texts
pub mod Entry
pub mod Promise
pub mod Samples
pub mod Inside
