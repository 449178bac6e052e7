pub mod Ascii
pub mod Text
pub mod Line
pub mod Promise
