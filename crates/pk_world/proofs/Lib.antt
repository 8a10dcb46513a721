pub mod Recorded
pub mod Chains
pub mod Crashes
pub mod Honesty
