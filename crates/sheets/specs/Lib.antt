pub mod Sheet
pub mod Entry
pub mod Promise
pub mod Inside
