pub mod Signs
pub mod Limits
