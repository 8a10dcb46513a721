pub mod Sheets
pub mod Pages
pub mod Reading
pub mod Errors
pub mod Laws
pub mod Edges
