pub mod Answering
pub mod Moving
pub mod FirstLine
