pub mod Members
pub mod Times
pub mod Crowds
pub mod Balance
pub mod Orders
