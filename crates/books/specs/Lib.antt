pub mod Tables
pub mod Answers
pub mod Shelves
pub mod Owning
pub mod OneRule
