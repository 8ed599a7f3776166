pub mod Members
pub mod Meeting
pub mod Near
pub mod Becoming
pub mod Sharing
pub mod Putting
pub mod Gathers
pub mod Formings
