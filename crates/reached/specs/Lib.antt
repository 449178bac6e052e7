pub mod Words
pub mod Promise
pub mod Figures
pub mod Samples
