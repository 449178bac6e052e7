pub mod Layouts
pub mod Widths
pub mod Sheets
pub mod SameFronts
pub mod Fillings
pub mod States
pub mod Prepares
pub mod Entries
