pub mod AtCeilingSamples
pub mod ManyArrows
pub mod TotalReached
pub mod ByteReached
pub mod Reached
pub mod Copies
pub mod Counting
