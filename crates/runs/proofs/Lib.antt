pub mod Refusals
pub mod AdderSamples
pub mod Over
pub mod Places
pub mod Feeds
pub mod Fronts
pub mod Runs
pub mod Texts
