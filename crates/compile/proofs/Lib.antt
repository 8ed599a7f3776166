pub mod Links
pub mod Layouts
pub mod Steps
pub mod Sealed
