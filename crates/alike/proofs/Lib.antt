pub mod Graphs
pub mod Numbers
pub mod Pairings
pub mod Ranges
pub mod Sides
