pub mod Contents
pub mod Edges
pub mod History
pub mod Images
pub mod Indexed
pub mod Laws
