pub mod Terms
pub mod Reduction
pub mod TermNets
pub mod Indices
pub mod Reading
pub mod Theorems
pub mod Worked
