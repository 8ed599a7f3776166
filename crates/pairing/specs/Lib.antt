pub mod Graph
pub mod Pieces
pub mod Rows
