pub mod Slots
pub mod Parts
pub mod Choosing
pub mod Ends
