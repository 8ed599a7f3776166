pub mod Listings
pub mod Pairings
pub mod Rows
pub mod Sides
