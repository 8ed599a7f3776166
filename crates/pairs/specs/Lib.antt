pub mod Pairs
pub mod Forming
pub mod Gathering
