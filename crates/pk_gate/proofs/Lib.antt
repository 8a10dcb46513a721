pub mod Frames
pub mod Torn
pub mod Chains
pub mod Lies
pub mod Looks
pub mod Heads
