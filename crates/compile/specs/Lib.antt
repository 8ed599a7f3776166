pub mod Compiling
pub mod Linking
pub mod Building
