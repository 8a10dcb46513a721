pub mod Completions
pub mod Examples
pub mod Filling
pub mod Laws
pub mod Similarity
