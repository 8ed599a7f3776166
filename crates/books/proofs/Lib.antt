pub mod Shelves
pub mod Depicted
