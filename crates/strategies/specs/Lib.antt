pub mod Behaviour
pub mod Bags
pub mod Orders
pub mod Splits
pub mod Choice
