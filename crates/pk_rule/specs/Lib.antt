pub mod Plain
pub mod Tables
pub mod Rule
pub mod TwoRows
pub mod Laws
pub mod Edges
