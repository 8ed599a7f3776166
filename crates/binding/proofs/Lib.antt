pub mod Counting
pub mod Linearity
pub mod Places
