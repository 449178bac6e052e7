pub mod Writing
pub mod Decimals
pub mod Pairs
pub mod Lines
pub mod Paging
