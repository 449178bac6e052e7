pub mod Receipts
pub mod Streams
