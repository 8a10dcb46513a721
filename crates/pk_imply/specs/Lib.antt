pub mod Deriving
pub mod Cover
pub mod Candidates
pub mod Asking
pub mod Laws
pub mod Examples
pub mod Edges
