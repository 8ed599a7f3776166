pub mod Exchange
pub mod Room
pub mod Pairs
pub mod Growth
pub mod Steps
pub mod Rows
pub mod Drawn
