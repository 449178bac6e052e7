pub mod Arrows
pub mod Preparing
pub mod Ceilings
pub mod Costs
pub mod Promise
pub mod Samples
