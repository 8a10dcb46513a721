pub mod Conditions
pub mod Kinds
pub mod Laws
pub mod Truth
