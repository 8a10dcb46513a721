pub mod Shapes
pub mod Making
pub mod Admits
pub mod Checks
pub mod Laws
pub mod Edges
