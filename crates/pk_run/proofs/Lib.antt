pub mod Runs
pub mod ValidRuns
