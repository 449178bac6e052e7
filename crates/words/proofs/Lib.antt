pub mod Tests
pub mod Lists
pub mod Ends
pub mod Largest
pub mod Borders
