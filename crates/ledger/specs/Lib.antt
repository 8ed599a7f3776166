pub mod Places
pub mod Ledger
