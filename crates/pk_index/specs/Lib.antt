pub mod Rows
pub mod Shelves
pub mod Packing
pub mod Filing
pub mod Shown
pub mod Laws
