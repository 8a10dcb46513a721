pub mod Words
pub mod WordEdges
pub mod Declarations
pub mod DeclarationEdges
pub mod Printing
pub mod Given
