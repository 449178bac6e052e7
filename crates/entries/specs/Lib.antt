pub mod Numbers
pub mod Boards
